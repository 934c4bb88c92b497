-- Recurrences of Microsoft Graph: what JSON states of them, and what occurs in them.
pub mod Counterpart
pub mod Laws
pub mod Members
pub mod Occurrences
pub mod Reading
pub mod Text
pub mod Uses
pub mod Validity
