pub mod Descending
pub mod Chain
pub mod UsedWords
pub mod Fitted
pub mod Putting
pub mod KeysOf
