pub mod ExplainedRuns
pub mod HistoryLaws
pub mod KeySets
pub mod MachineRuns
pub mod RisingKeys
