use Rattle.std.proofs.Common.{◌≡◌, ℕ, List, ◌++◌, subst, ap, ◌∙◌, append_assoc, codes, decimal}
use Rattle.pla.specs.Device.{Puts}
use Rattle.pla.proofs.text.write_number.Goals as goal

behind : (front keyword bytes digits feed : List ℕ) → bytes ≡ digits → ((front ++ keyword) ++ bytes) ++ feed ≡ front ++ ((keyword ++ digits) ++ feed)
behind front keyword bytes digits feed is =
    ap (λ b. ((front ++ keyword) ++ b) ++ feed) is ∙ ap (λ t. t ++ feed) (append_assoc front keyword digits) ∙ append_assoc front (keyword ++ digits) feed

pub returns-clause-bytes : goal.returns-clause-bytes
returns-clause-bytes g c = λ old front w.
    subst (Puts old _ _ _) (behind front c.args.keyword.now c.as_bytes.result.now (decimal c.args.number) (codes "\n") (c.as_bytes.ensures.value ∙ c.format.ensures.text))
    (c.write_next.ensures.bytes _ _ (c.write_next-done-2.ensures.bytes _ _ (c.write_next-done.ensures.bytes old front w)))

pub returns-clause-count : goal.returns-clause-count
returns-clause-count g c = λ before h. c.write_next.ensures.count before (c.write_next-done-2.ensures.count before (c.write_next-done.ensures.count before h))
