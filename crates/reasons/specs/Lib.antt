-- Zero, or a shared factor: what the refusals of a row and the factor of Inverse say, and that nothing else has changed by them.
--   Lowest    the lowest row without an inverse: it has a zero, or shares a factor with m
--   Refused   a number that is given, against the conditions of its test and of those before it
--   Rows      what 17, 10, 18 and 11 say of a family
--   Changes   what they say of a row that is appended, or put in the place of another
--   Instead   without the reason, 10 in the place of 17 and 11 in that of 18, the calls answer by 10 and 11 alone
--   Inverses  what the factor says that Inverse hands out
-- Item 5 of the change requests. Assumes nothing.
pub mod Lowest
pub mod Refused
pub mod Rows
pub mod Changes
pub mod Instead
pub mod Inverses
