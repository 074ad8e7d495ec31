pub mod RoleLemmas
pub mod ShownLemmas
