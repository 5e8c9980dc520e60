use Rattle.std.specs.Prelude.{ℕ}
use Rattle.soqe_io.specs.declared.standard.StdSource.{StdSource}
use Rattle.soqe_io.specs.declared.standard.StdSink.{StdSink}

-- the reader that a source reads from
abbrev pub source_inner : {R : Type 0} → StdSource R → R
source_inner s = s.inner

-- how many faults a source over a reader has counted
abbrev pub source_faults : {R : Type 0} → StdSource R → ℕ
source_faults s = s.faults

-- the writer that a sink writes to
abbrev pub sink_inner : {W : Type 0} → StdSink W → W
sink_inner s = s.inner

-- how many faults a sink over a writer has counted
abbrev pub sink_faults : {W : Type 0} → StdSink W → ℕ
sink_faults s = s.faults
