-- Laws: what each input comes to, step by step, and what follows for the merge.
pub mod Conversions
pub mod Ends
pub mod Manifests
pub mod Merges
pub mod Opened
pub mod Sheets
pub mod Steps
pub mod Two
pub mod Worlds
