pub mod PredSubst
pub mod PredSubstLaws
pub mod Replaces
