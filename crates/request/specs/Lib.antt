-- The definitions that the contracts cite.
pub mod Forms
pub mod Judging
pub mod Refusals
pub mod Replies
pub mod Requests
