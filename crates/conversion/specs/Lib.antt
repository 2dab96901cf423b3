pub mod TowardsIn
