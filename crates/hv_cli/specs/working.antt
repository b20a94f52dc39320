-- What single functions do. No promise of the program rests on these.
pub mod Found
pub mod Given
