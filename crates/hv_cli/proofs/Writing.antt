-- What the writing of a text leaves, whole or in part.
use Rattle.std.proofs.Common.{◌≡◌, ℕ, List, Option, Result, Ok, Err, length, OnOk, OnErr, inl, inr, refl}
use Rattle.std.proofs.Math.Seq.{take-length}
use Rattle.hv_outside.specs.Sink.{Adds, AddsPrefix}
use Rattle.hv_cli.specs.declared.answer.Answer.{Answer}
use Rattle.hv_cli.specs.Answer.{output_of, message_of}
use Rattle.hv_cli.specs.Given.{Writes, AddsOutput, AddsMessagePrefix, MessageFailed}
use Rattle.hv_cli.specs.working.Given.{IsGiven}

pub AddsPrefix-whole : (before now : Option (List ℕ)) (bytes : List ℕ) → Adds before now bytes
    → AddsPrefix before now bytes
AddsPrefix-whole before now bytes added = (length bytes, rw take-length added)

pub AddsPrefix-written : {T E : Type 0} (result : Result T E) (before now : Option (List ℕ))
    (bytes : List ℕ)
    → OnOk result (Adds before now bytes) → OnErr result (AddsPrefix before now bytes)
    → AddsPrefix before now bytes
AddsPrefix-written (Ok x) before now bytes whole front = AddsPrefix-whole before now bytes whole
AddsPrefix-written (Err e) before now bytes whole front = front

-- the output was written, and a write of the message failed
pub IsGiven-unwritten : (w : Writes) (answer : Answer) (output message : List ℕ)
    → output ≡ output_of answer → message ≡ message_of answer
    → AddsOutput w output → MessageFailed w → AddsMessagePrefix w message → IsGiven w 4 answer
IsGiven-unwritten w answer output message o m written rose front =
    inr (inl (record {
      status_is = refl;
      output =
          AddsPrefix-whole w.out_before.written w.out_now.written (output_of answer)
          (rw (← o) written);
      cause = inr (rose, inr (rw (← m) front));
    }))

-- the output was written, and memory ran out for the message
pub IsGiven-starved : (w : Writes) (answer : Answer) (output message : List ℕ)
    → output ≡ output_of answer → message ≡ message_of answer
    → AddsOutput w output → AddsMessagePrefix w message → IsGiven w 5 answer
IsGiven-starved w answer output message o m written front =
    inr (inr (record {
      status_is = refl;
      output_prefix =
          AddsPrefix-whole w.out_before.written w.out_now.written (output_of answer)
          (rw (← o) written);
      message_prefix = inr (inl (rw (← m) front));
    }))
