pub mod SettingsCall
