use Rattle.cover.proofs.MergedRows.{Adds-put}
use Rattle.cover.proofs.merging.HashedRows.put.Goals as goal

pub returns-in-Some : goal.returns-in-Some
returns-in-Some c = λ row union.
    Adds-put c.args.self.now.rows c.replace.new.self c.args.at row c.args.cube c.requires.index c.replace.ensures.size c.replace.ensures.cubes union

pub returns-in_default : goal.returns-in_default
returns-in_default c = λ row union.
    Adds-put c.args.self.now.rows c.replace.new.self c.args.at row c.args.cube c.requires.index c.replace.ensures.size c.replace.ensures.cubes union
