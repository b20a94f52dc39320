-- How an answer is given: by a status and by what two sinks got.
use Rattle.std.specs.Prelude.{ℕ, ◌≡◌, ◌⊎◌, List}
use Rattle.hv_outside.specs.Count.{Rose}
use Rattle.hv_outside.specs.Sink.{Adds, AddsPrefix, SinkState}
use Rattle.hv_base.specs.Status.{code_of}
use Rattle.hv_base.specs.declared.status.Status.TheVariants.{Unwritten, Memory}
use Rattle.hv_cli.specs.declared.answer.Answer.{Answer}
use Rattle.hv_cli.specs.Answer.{status_of, output_of, message_of, cannot_write, want_of_memory}

-- the output and the messages, before a call and after it
pub record Writes : Type 0 where
  pub out_before : SinkState
  pub out_now : SinkState
  pub err_before : SinkState
  pub err_now : SinkState

-- of the output and then of the messages
abbrev pub writes : SinkState → SinkState → SinkState → SinkState → Writes
writes out_before out_now err_before err_now = record {
  out_before = out_before;
  out_now = out_now;
  err_before = err_before;
  err_now = err_now;
}

-- these bytes were written to the output
abbrev pub AddsOutput : Writes → List ℕ → Type 0
AddsOutput w bytes = Adds w.out_before.written w.out_now.written bytes

-- a prefix of these bytes was written to the output
abbrev pub AddsOutputPrefix : Writes → List ℕ → Type 0
AddsOutputPrefix w bytes = AddsPrefix w.out_before.written w.out_now.written bytes

-- these bytes were written to the messages
abbrev pub AddsMessage : Writes → List ℕ → Type 0
AddsMessage w bytes = Adds w.err_before.written w.err_now.written bytes

-- a prefix of these bytes was written to the messages
abbrev pub AddsMessagePrefix : Writes → List ℕ → Type 0
AddsMessagePrefix w bytes = AddsPrefix w.err_before.written w.err_now.written bytes

-- a write to the output failed
abbrev pub OutputFailed : Writes → Type 0
OutputFailed w = Rose w.out_before.faults w.out_now.faults

-- a write to the messages failed
abbrev pub MessageFailed : Writes → Type 0
MessageFailed w = Rose w.err_before.faults w.err_now.faults

-- the answer was given whole: its status, its output and its message
pub record IsWhole (w : Writes) (status : ℕ) (answer : Answer) : Type 0 where
  pub status_is : status ≡ code_of (status_of answer)
  pub output : AddsOutput w (output_of answer)
  pub message : AddsMessage w (message_of answer)

-- a write failed: status 4. Where it was a write to the output, the message says so, as far as it
-- could be written; where it was a write of the message, nothing follows what was written of it
pub record IsUnwritten (w : Writes) (status : ℕ) (answer : Answer) : Type 0 where
  pub status_is : status ≡ code_of Unwritten
  pub output : AddsOutputPrefix w (output_of answer)
  pub cause : (OutputFailed w × AddsMessage w cannot_write)
      ⊎ (MessageFailed w × (AddsMessagePrefix w cannot_write
      ⊎ AddsMessagePrefix w (message_of answer)))

-- memory ran out: status 5, with a prefix of the output and of one message
pub record IsStarved (w : Writes) (status : ℕ) (output message : List ℕ) : Type 0 where
  pub status_is : status ≡ code_of Memory
  pub output_prefix : AddsOutputPrefix w output
  pub message_prefix : AddsMessagePrefix w want_of_memory
      ⊎ (AddsMessagePrefix w message ⊎ (OutputFailed w × AddsMessagePrefix w cannot_write))
