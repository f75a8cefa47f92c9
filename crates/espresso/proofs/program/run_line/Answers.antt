use Rattle.std.proofs.Common.{inr}
use Rattle.espresso.proofs.program.run_line.Goals as goal

pub returns-in-Ok-clause-ends : goal.returns-in-Ok-clause-ends
returns-in-Ok-clause-ends g c = let ran = c.run_on.ensures.ends in
    inr (record {
      between = c.open_source.new.opener;
      runs = record {
        taken = ran.taken;
        first = record {
          source = c.in-Ok.first;
          source_after = c.run_on.new.first;
          opened = rw (c.files.ensures) at c.in-Ok.ensures.source;
          taken = ran.first;
        };
        second = ran.second;
        ends = ran.ends;
      };
    })
