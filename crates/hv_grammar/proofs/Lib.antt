pub mod Spelling
pub mod SpellingElements
mod Rows
pub mod MachineRows
mod ElementRows
pub mod Arriving
pub mod ArrivingTypes
pub mod ArrivingDeclarators
pub mod Completeness
pub mod ArrivingInitializers
pub mod ArrivingStatements
pub mod OneTree
pub mod Reached
pub mod SoundInitializers
pub mod SoundExpressions
pub mod SoundSpecifiers
pub mod SoundDeclarators
pub mod SoundStatements
pub mod Soundness
pub mod Completion
pub mod Pending
pub mod ControlSteps
pub mod ControlElements
pub mod ControlItself
pub mod Languages
pub mod Verdict
pub mod OneRefusal
