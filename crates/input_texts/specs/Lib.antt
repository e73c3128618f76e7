pub mod plain_text
pub mod table_text
pub mod curve_script
