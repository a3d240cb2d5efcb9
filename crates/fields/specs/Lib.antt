-- Document 01, "House files": bytes, fields, and number 8. For a reader: Bytes, Tags, Fields, Form.
pub mod Bytes
pub mod Tags
pub mod Fields
pub mod Form
