pub mod SonLaws
pub mod KeptSons
