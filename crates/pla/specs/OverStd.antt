-- What a reader or a writer of std as a device holds.
use Rattle.pla.specs.declared.calls.ReadCalls.{ReadCalls}
use Rattle.pla.specs.declared.calls.WriteCalls.{WriteCalls}
use Rattle.pla.specs.declared.over_std.Reading.{Reading}
use Rattle.pla.specs.declared.over_std.Writing.{Writing}

-- the reader of std
abbrev pub reader_of : {R : Type 0} → Reading R → R
reader_of reading = reading.inner

-- what came of the reads
abbrev pub read_calls : {R : Type 0} → Reading R → ReadCalls
read_calls reading = reading.calls

-- the writer of std
abbrev pub writer_of : {W : Type 0} → Writing W → W
writer_of writing = writing.inner

-- what came of the writes and flushes
abbrev pub write_calls : {W : Type 0} → Writing W → WriteCalls
write_calls writing = writing.calls
