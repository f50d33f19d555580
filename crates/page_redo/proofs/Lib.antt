pub mod CarryLaws
pub mod OnePage
pub mod PageLaws
pub mod PrefixLaws
pub mod RedoLaws
pub mod RedoSteps
pub mod Touched
pub mod VictimLaws
