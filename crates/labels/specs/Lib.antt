pub mod WholeName
pub mod LabelHash
