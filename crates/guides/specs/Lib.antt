pub mod Tested
pub mod Shown
pub mod Guides
pub mod FairTables
