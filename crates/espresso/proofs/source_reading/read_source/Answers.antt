use Rattle.std.proofs.Common.{refl}
use Rattle.espresso.specs.Run.{Read, name_of}
use Rattle.espresso.proofs.Readings.{stopped_reading, whole_reading}
use Rattle.espresso.proofs.source_reading.read_source.Goals as goal

pub returns-in-Ok : goal.returns-in-Ok
returns-in-Ok g c = let read = rw (c.in-Ok.is, c.echo.ensures) at c.read_pla.ensures in (
  Read read.bytes read.ending,
  rw c.in-Open.is (refl, record { consumed = read.consumed; ended = read.met; front = read.front; piece = read.piece; bounded = read.bounded }),
  whole_reading c.args.line.now c.args.operand (name_of c.args.source.now) read.bytes read.ending _ _ _ _ c.in-Ok.pla read.answer read.echoes read.written read.counted,
)

pub returns-in-Err : goal.returns-in-Err
returns-in-Err g c = let read = rw (c.in-Err.is, c.echo.ensures) at c.read_pla.ensures in (
  Read read.bytes read.ending,
  rw c.in-Open.is (refl, record { consumed = read.consumed; ended = read.met; front = read.front; piece = read.piece; bounded = read.bounded }),
  rw c.by.ensures (stopped_reading c.args.line.now c.args.operand (name_of c.args.source.now) read.bytes read.ending _ _ _ _ c.in-Err.fault c.in-Err.fault.kind
      read.answer read.echoes read.written read.counted),
)
