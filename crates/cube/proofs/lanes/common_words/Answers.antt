use Rattle.std.proofs.Common.{Result, Ok, Err, IfOk, rules}
use Rattle.cube.specs.Words.{AreCommon}
use Rattle.cube.proofs.lanes.common_words.Goals as goal

-- two facts of a value give a third
both : {X E : Type 0} (r : Result X E) (P Q R : X → Type 0) → ((x : X) → P x → Q x → R x) → IfOk r P → IfOk r Q → IfOk r R
both (Ok x) P Q R f p q = f x p q
both (Err e) P Q R f p q = tt

pub returns-then-a-lt-MANY-clause-words : goal.returns-then-a-lt-MANY-clause-words
returns-then-a-lt-MANY-clause-words c =
    both c.zip_words.result _ _ (λ v. AreCommon c.args.a.now c.args.b.now v.items)
    (λ v len words. record { len = len; each = λ k lt. let h = words k lt in search (rules, h) }) c.zip_words.ensures.len c.zip_words.ensures.words
