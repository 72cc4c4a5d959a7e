pub mod SectionCall
pub mod GroupsCall
