pub mod PanelLine
pub mod Holding
