-- Embedding a joining order. For a reader: Embedding, Permitted, Layouts, Described. For the code alone: Ready, Places.
pub mod Embedding
pub mod Permitted
pub mod Layouts
pub mod Described
pub mod Ready
pub mod Places
