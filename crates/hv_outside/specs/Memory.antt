-- Which calls of files, sources and sinks in memory fail, and how much a write takes.
use Rattle.std.specs.Prelude.{ℕ}
use Rattle.hv_outside.specs.declared.memory.MemFiles.{MemFiles}
use Rattle.hv_outside.specs.declared.memory.MemSource.{MemSource}
use Rattle.hv_outside.specs.declared.memory.MemSink.{MemSink}
use Rattle.hv_outside.specs.Schedule.{Schedule}

-- which reads of these files fail
abbrev pub file_schedule : MemFiles → Schedule
file_schedule files = files.schedule

-- which reads of this source fail
abbrev pub source_schedule : MemSource → Schedule
source_schedule source = source.schedule

-- which writes to this sink fail
abbrev pub sink_schedule : MemSink → Schedule
sink_schedule sink = sink.schedule

-- the most bytes that one write takes
abbrev pub most_of : MemSink → ℕ
most_of sink = sink.most.bytes
