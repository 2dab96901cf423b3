pub mod ConversionReply
pub mod Converted
pub mod Way
