pub mod RegisterReply
