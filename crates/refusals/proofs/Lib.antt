-- What follows from an answer's number and value. Assumes nothing.
pub mod Answers
