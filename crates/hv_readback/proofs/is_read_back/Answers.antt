use Rattle.hv_readback.proofs.PlacedPrograms.{places_change_nothing_else, programs_are_read_in_place}
use Rattle.hv_readback.proofs.PlacedTokens.{same_programs_have_same_tokens}
use Rattle.hv_readback.proofs.Preprocessed.{tokens_are_read_back}
use Rattle.hv_readback.proofs.Programs.{programs_are_read_back}
use Rattle.hv_readback.proofs.is_read_back.Goals as goal

pub returns-clause-tokens : goal.returns-clause-tokens
returns-clause-tokens c = tokens_are_read_back

pub returns-clause-programs : goal.returns-clause-programs
returns-clause-programs c = programs_are_read_back

pub returns-clause-places : goal.returns-clause-places
returns-clause-places c = places_change_nothing_else

pub returns-clause-in_place : goal.returns-clause-in_place
returns-clause-in_place c = programs_are_read_in_place

pub returns-clause-same_tokens : goal.returns-clause-same_tokens
returns-clause-same_tokens c = same_programs_have_same_tokens
