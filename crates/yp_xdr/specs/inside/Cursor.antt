-- What a cursor has left to read.
use Rattle.yp_xdr.specs.declared.cursor.Cursor.{Cursor}
use Rattle.yp_xdr.specs.Reading.{Remaining}

abbrev pub unread : Cursor → Remaining
unread cursor = record { at = cursor.at; bytes = cursor.rest.now }
