pub mod GroundLemmas
pub mod TaskLemmas
pub mod ExchangeLemmas
pub mod PlanLemmas
pub mod ByKeys
pub mod RowLemmas
pub mod RecentLemmas
pub mod OrbitLemmas
