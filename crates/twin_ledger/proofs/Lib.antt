pub mod Mirrors
