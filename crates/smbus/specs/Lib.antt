-- The definitions that the contracts cite.
pub mod Acceptance
pub mod Address
pub mod PacketErrorCode
pub mod Refusals
