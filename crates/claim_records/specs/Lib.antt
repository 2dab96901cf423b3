pub mod ClaimHeld
pub mod ClaimTable
pub mod Body
