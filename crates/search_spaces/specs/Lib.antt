-- Read in this order: by which exchanges a task is searched, what a search is over, how its states are listed, and what a plan of it is.
pub mod Exchanges
pub mod SearchSpace
pub mod Rows
pub mod States
pub mod RecentStates
pub mod ListedByKeys
pub mod Orbits
pub mod OrbitStore
pub mod GroundListing
pub mod Plans
pub mod Reachable
