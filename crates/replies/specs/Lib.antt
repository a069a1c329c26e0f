-- definitions
pub mod Reply
pub mod Replies
pub mod Answers
pub mod Walks
-- laws
pub mod ReplyLaws
pub mod RepliesLaws
-- theorems
pub mod RepliesTheorems
