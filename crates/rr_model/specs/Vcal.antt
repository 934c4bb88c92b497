-- Series of vCalendar 1.0: what texts state of them, and what occurs in them.
pub mod Counterpart
pub mod Items
pub mod Laws
pub mod Members
pub mod Reading
pub mod Rule
pub mod Validity
pub mod Written
