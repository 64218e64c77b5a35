mod Portions
