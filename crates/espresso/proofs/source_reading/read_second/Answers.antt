use Rattle.espresso.specs.declared.failure.Operand.TheVariants.{Second}
use Rattle.espresso.specs.Run.{name_of}
use Rattle.espresso.specs.Tool.{second_name}
use Rattle.espresso.proofs.Opening.{named}
use Rattle.espresso.proofs.source_reading.read_second.Goals as goal

pub returns : goal.returns
returns g c = let read = c.read_source.ensures in
    (read.0, read.1, named c.args.line.now Second (name_of c.args.source.now) (second_name c.args.line.now.files) read.0 _ c.read_source.result c.requires read.2)
