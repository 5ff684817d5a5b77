pub mod PairLines
pub mod LineMeaning
pub mod LongLines
pub mod GoodPairs
