-- What the code does with the list of commands: no rule.
pub mod Sending
