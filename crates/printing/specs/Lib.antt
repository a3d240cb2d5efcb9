-- Document 01, "The program and its lines": what the program prints for its input.
pub mod Program
