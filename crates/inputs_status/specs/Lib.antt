-- What the inner functions of a status ask of their callers: no rules.
pub mod StatusAsked
