mod Passes
mod Three
