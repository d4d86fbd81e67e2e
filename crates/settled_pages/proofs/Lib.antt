pub mod ArmedLemmas
pub mod ChainLemmas
pub mod FaultLemmas
pub mod LookupLemmas
pub mod PlaceLemmas
pub mod RootLemmas
