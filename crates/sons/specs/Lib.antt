pub mod SonLists
pub mod SonSteps
