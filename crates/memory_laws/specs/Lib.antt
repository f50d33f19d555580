pub mod CoreMemory
