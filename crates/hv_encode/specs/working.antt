-- What single functions do. No promise of the program rests on these.
pub mod Lift
pub mod Lines
pub mod Presence
