pub mod GroupsRead
