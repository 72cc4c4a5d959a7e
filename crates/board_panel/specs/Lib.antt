pub mod PanelCall
pub mod Explains
