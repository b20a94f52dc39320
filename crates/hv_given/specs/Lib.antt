-- What episodes give under all configurations, and which configurations are refused. Read Given,
-- then Refusals. Laws has what proofs above need of refusals. `working` is about how an entry is
-- found.
pub mod Given
pub mod Laws
pub mod Refusals
pub mod working
