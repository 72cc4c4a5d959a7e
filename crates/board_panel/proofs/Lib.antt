pub mod PanelCalls
