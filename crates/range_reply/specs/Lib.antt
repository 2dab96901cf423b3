pub mod RangesReply
pub mod RangesGiven
pub mod Planning
