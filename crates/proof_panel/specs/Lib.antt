pub mod PanelLaws
pub mod WhyCases
